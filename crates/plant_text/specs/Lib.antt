pub mod CanonicalFronts
pub mod Grammar
pub mod Laws
pub mod PlantRefusals
pub mod inside
