pub mod Bodies
pub mod Items
pub mod Laws
pub mod Names
pub mod Small
