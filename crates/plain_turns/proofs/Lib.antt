pub mod PlainTasks
