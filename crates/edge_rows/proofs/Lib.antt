pub mod Fillings
pub mod Laid
pub mod RunsLaid
