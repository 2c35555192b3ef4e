mod Available
mod Numbered
mod Good
mod Open
mod Plans
mod Truth
mod RowsPlans
