pub mod Pick
pub mod Limits
pub mod Answers
pub mod Modulo
pub mod Counters
pub mod Clock
pub mod Wrapping
pub mod Bits
