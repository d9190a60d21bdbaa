pub mod LawRefusals
