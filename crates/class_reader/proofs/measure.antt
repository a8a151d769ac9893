pub mod Laws
pub mod Module
