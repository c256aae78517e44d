pub mod RowLaws
pub mod ReadLaws
pub mod PutLaws
pub mod ReadBack
pub mod FitLaws
pub mod WriteBack
pub mod StoredLaws
pub mod StoredBack
