pub mod BoundedList
