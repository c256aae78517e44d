pub mod Settled
pub mod RowLengths
pub mod TableLaws
pub mod LayoutLaws
pub mod ByteLaws
pub mod RowLaws
