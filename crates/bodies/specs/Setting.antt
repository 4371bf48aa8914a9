-- The struct of a record's setting, as crate rules has it.
use Rattle.rules.specs.Setting.{Setting as Rule}
use Rattle.setting.specs.declared.Setting.{Setting}
use Rattle.setting.specs.Call.{asked}

abbrev pub setting_of : Setting → Rule
setting_of s = asked s

-- .. and the struct of a setting
abbrev pub struct_of : Rule → Setting
struct_of S = record { p = S.p; n = S.n; k = S.k; s = S.s; tau = S.τ }
