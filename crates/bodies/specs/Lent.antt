-- What is said of the room after a call: its arrays are the three that were lent with it.
use Rattle.std.specs.Prelude.{◌≡◌}
use Rattle.bodies.specs.declared.room.Room.{Room}

abbrev pub Lent : Room → Room → Type 0
Lent before after = (after.list.ghost_name ≡ before.list.ghost_name) × (after.curve.ghost_name ≡ before.curve.ghost_name)
    × (after.work.ghost_name ≡ before.work.ghost_name)
