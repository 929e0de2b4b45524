pub mod Datasets
pub mod Soundness
pub mod Catalogues
