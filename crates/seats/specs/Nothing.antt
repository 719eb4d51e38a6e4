-- What holds of no task, where seats aren't picked.

abbrev pub Never : Type 0
Never = ⊥

pub never_twice : IsProp Never
never_twice x y = absurd x
