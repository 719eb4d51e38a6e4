pub mod TasksOn
