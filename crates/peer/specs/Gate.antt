-- "Order for every call: settings and store (11), record (13), then the table's order downward"
use Rattle.std.specs.Prelude.{Bool, eqb, ⊤, Result, Ok, Err}
use Rattle.numbers.specs.Pick.{pick, both}
use Rattle.numbers.specs.declared.refusals.Refusal.{Refusal}
use Rattle.numbers.specs.declared.refusals.Refusal.TheVariants.{OutOfRange, Damaged}
use Rattle.record.specs.Sizes.{store_length, second_length}
use Rattle.peer.specs.Settings.{fit_settings}
use Rattle.peer.specs.Damage.{sound}
use Rattle.peer.specs.Outcome.{Outcome, unchanged}
use Rattle.peer.specs.declared.settings.Settings.{Settings}
use Rattle.peer.specs.declared.Peer.{Peer}
use Rattle.peer.specs.declared.gate.Lent.{Lent}
use Rattle.peer.specs.declared.gate.Lent.TheVariants.{Nothing, Store, Both}

-- "a setting out of range or a store of another length"
abbrev pub fits : Settings → Lent → Bool
fits s Nothing = fit_settings s
fits s (Store length) = both (fit_settings s) (eqb length store_length)
fits s (Both length second) = both (fit_settings s) (both (eqb length store_length) (eqb second second_length))

abbrev pub gate_of : Bool → Bool → Result ⊤ Refusal
gate_of fit good = pick fit (pick good (Ok tt) (Err Damaged)) (Err OutOfRange)

-- one gate after another
abbrev pub then : Result ⊤ Refusal → Result ⊤ Refusal → Result ⊤ Refusal
then (Ok _) next = next
then (Err why) next = Err why

-- refused where a gate is shut, and else the rest; a call that may change x
abbrev pub behind : {A : Type 0} → Result ⊤ Refusal → A → Outcome A → Outcome A
behind (Ok _) x rest = rest
behind (Err why) x rest = unchanged why x

-- every call
abbrev pub gated : {A : Type 0} → Settings → Lent → Peer → A → Outcome A → Outcome A
gated s lent p x rest = behind (gate_of (fits s lent) (sound p)) x rest

-- one that may change the record and is lent nothing
abbrev pub on_record : Settings → Peer → Outcome Peer → Outcome Peer
on_record s p rest = gated s Nothing p p rest
