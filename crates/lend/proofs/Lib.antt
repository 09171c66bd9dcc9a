-- A lent struct's arrays, lent on: the arrays of a struct (Fields), one of them lent (Loan), several (Loans), those that a call is to be lent (Chosen), and the
-- call (Callee), with the parameters that it takes beside them (Copied, Params) and the locals that hold them (Row).
pub mod Callee
pub mod Chosen
pub mod Copied
pub mod Fields
pub mod Loan
pub mod Loans
pub mod Params
pub mod Row
