pub mod Table
pub mod CodeCuts
