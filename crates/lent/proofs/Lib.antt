-- Laws of what is stored in lent slices, and of what a call tells and shows.
pub mod Copying
pub mod Showing
