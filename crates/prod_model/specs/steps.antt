pub mod TypeMasks
pub mod ExprBounds
