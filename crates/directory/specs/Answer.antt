-- What a walk answers.
use Rattle.std.specs.Prelude.{ℕ, Option, Some, None, Result, Ok, Err}
use Rattle.refusal.specs.declared.Fault.{Fault}
use Rattle.refusal.specs.declared.Refusal.{Refusal}
use Rattle.directory.specs.Lent.{EntryPlaced}

-- an entry or none, and how many records were opened so far
pub record Told : Type 0 where
  pub entry : Option EntryPlaced
  pub opened : ℕ

-- or a refusal, with that count
abbrev pub Answered : Type 0
Answered = Result Told Fault

abbrev pub some : EntryPlaced → ℕ → Answered
some entry o = Ok (record { entry = Some entry; opened = o })

abbrev pub none : ℕ → Answered
none o = Ok (record { entry = None; opened = o })

abbrev pub fault_of : Refusal → ℕ → Fault
fault_of refusal o = record { refusal = refusal; opened = o }

abbrev pub refused : Refusal → ℕ → Answered
refused refusal o = Err (fault_of refusal o)
