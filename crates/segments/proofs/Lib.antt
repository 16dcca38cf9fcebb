-- The theory of the second order, with no code in sight. The headline theorems are `two_orders_segments` and `two_orders_graph` (TwoOrders), and `segments_few`
-- (SegmentCount). SegmentCells has the order as links in cells, and the walk along them.
pub mod Insertion
pub mod SegmentFacts
pub mod SegmentCount
pub mod SegmentStacks
pub mod TwoOrders
pub mod SegmentCells
pub mod Runs
