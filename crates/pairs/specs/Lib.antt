-- What the call for pairs answers and leaves, what that means, what its functions leave, and traces to go by.
pub mod Pairs
pub mod Demands
pub mod Close
pub mod Runs
