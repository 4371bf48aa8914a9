-- What an exported call takes and gives is numbers: as a setting, and as the outcomes of rules.
use Rattle.std.specs.Prelude.{List, ℕ}
use Rattle.rules.specs.Setting.{Setting}
use Rattle.rules.specs.Outcome.{Encoded, Finding, Reading}

-- the arguments, as a setting
abbrev pub asked : ℕ → ℕ → ℕ → ℕ → ℕ → Setting
asked p n k s τ = record { p = p; n = n; k = k; s = s; τ = τ }

abbrev pub encoded : ℕ → List ℕ → Encoded
encoded refusal output = record { refusal = refusal; output = output }

abbrev pub finding : ℕ → ℕ → ℕ → List ℕ → List ℕ → Finding
finding refusal found tried curve work = record { refusal = refusal; found = found; tried = tried; curve = curve; work = work }

abbrev pub reading : ℕ → ℕ → ℕ → List ℕ → List ℕ → List ℕ → Reading
reading refusal found tried output curve work = record {
  refusal = refusal;
  found = found;
  tried = tried;
  output = output;
  curve = curve;
  work = work;
}
