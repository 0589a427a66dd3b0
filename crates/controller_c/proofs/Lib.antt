mod Values
mod HeldValues
mod Crossing
mod Moving
