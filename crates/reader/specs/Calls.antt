-- The outcomes of rules, made of what a call returns and what its buffers hold.
use Rattle.std.specs.Prelude.{Bool, false, List, ℕ, Result, Ok, Err}
use Rattle.rules.specs.Outcome.{Encoded, Checked, Finding, Listing, Reading}
use Rattle.causes.specs.declared.Refusal.{Refusal}
use Rattle.causes.specs.Number.{refused}
use Rattle.roots.specs.declared.Tally.{Tally}

-- "check: no"
abbrev pub yes : Result Bool Refusal → Bool
yes (Ok answer) = answer
yes (Err cause) = false

-- "list length 0, beginnings 0"
abbrev pub found : Result Tally Refusal → ℕ
found (Ok tally) = tally.found
found (Err cause) = 0

abbrev pub tried : Result Tally Refusal → ℕ
tried (Ok tally) = tally.tried
tried (Err cause) = 0

abbrev pub encoded : {A : Type 0} → Result A Refusal → List ℕ → Encoded
encoded result output = record { refusal = refused result; output = output }

abbrev pub checked : Result Bool Refusal → Checked
checked result = record { refusal = refused result; yes = yes result }

-- finding counts nothing
abbrev pub finding : {A : Type 0} → Result A Refusal → List ℕ → List ℕ → Finding
finding result curve work = record { refusal = refused result; found = 0; tried = 0; curve = curve; work = work }

abbrev pub listing : Result Tally Refusal → List ℕ → List ℕ → Listing
listing result output work = record {
  refusal = refused result;
  found = found result;
  tried = tried result;
  output = output;
  work = work;
}

abbrev pub reading : Result Tally Refusal → List ℕ → List ℕ → List ℕ → Reading
reading result output curve work = record {
  refusal = refused result;
  found = found result;
  tried = tried result;
  output = output;
  curve = curve;
  work = work;
}
