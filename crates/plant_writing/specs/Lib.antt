pub mod CanonicalText
pub mod ExpressionText
pub mod inside
