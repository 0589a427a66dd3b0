pub mod Noise
pub mod Trace
pub mod TraceText
pub mod Laws
pub mod inside
