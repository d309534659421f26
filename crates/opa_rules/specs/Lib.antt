pub mod Asked
pub mod Promises
pub mod Describing
pub mod Faults
pub mod Printing
pub mod Reviewing
