pub mod BoolLaws
pub mod ModuloLaws
pub mod BitLaws
pub mod Settled
