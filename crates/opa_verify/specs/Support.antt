pub mod Faults
pub mod Ledgers
pub mod Proofs
pub mod Rulebases
pub mod Singles
pub mod Told
