pub mod CodeOutWalks
pub mod CodeInWalks
