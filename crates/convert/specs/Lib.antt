-- What the conversion answers and leaves, what that means, what its functions leave, and traces to go by.
pub mod Conversion
pub mod Demands
pub mod States
pub mod Runs
