-- The laws of what a race leaves.
pub mod ReportingPartner
pub mod ReportingStores
pub mod ReportingOrders
pub mod Reporting
