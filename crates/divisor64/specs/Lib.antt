pub mod CoprimeAttempted
