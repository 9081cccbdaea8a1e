-- How long a packed series can be, and where a refusal can stand; a packed series under the coarseness rule with another share.
pub mod Bounds
pub mod Shares
