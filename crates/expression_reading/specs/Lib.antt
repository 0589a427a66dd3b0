pub mod KindTrees
pub mod Laws
pub mod SyntaxTrees
pub mod TokenKinds
pub mod inside
