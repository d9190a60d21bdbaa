pub mod DivisorStages
