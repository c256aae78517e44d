-- What becomes of a group, and of the window with it: "At base + 32,768 or more it is passed over, nothing changed. If the base is not the first
-- group of g's window, it moves there and all 32 words are cleared; else a marked group is passed over. Then it is stored: on 8 the move and the
-- clearing stay and g is unmarked. In state 6 g is marked and nothing stored: passed over."
use Rattle.std.specs.Prelude.{ℕ, List}
use Rattle.numbers.specs.declared.counters.Group.{Group}
use Rattle.window.specs.Window.{by_tests, first, cleared, marking}
use Rattle.record.specs.Flags.{flagged}
use Rattle.record.specs.Updates.{with_window}
use Rattle.record.specs.declared.groups.Unsequenced.{Unsequenced}
use Rattle.arrival.specs.declared.Fate.{Fate}
use Rattle.arrival.specs.declared.Fate.TheVariants as fate
use Rattle.arrival.specs.declared.Judged.{Judged}

-- a group that the window takes, at the base and with the words that its move left; what joins dispatched sets bit 1 of the flags
abbrev pub taken_at : Fate → Unsequenced → Group → Group → List ℕ → Judged
taken_at fate.Passed g group base words = record { unsequenced = with_window g base (marking words group.0); fate = fate.Passed }
taken_at fate.NoRoom g group base words = record { unsequenced = with_window g base words; fate = fate.NoRoom }
taken_at (fate.Stored s) g group base words =
    record { unsequenced = flagged (with_window g base (marking words group.0)); fate = fate.Stored s }

-- passed over, nothing changed
abbrev pub passed_by : Unsequenced → Judged
passed_by g = record { unsequenced = g; fate = fate.Passed }

-- the window's tests in their order: too far, in another window than the base's, marked, not marked; room says what becomes of one that is taken
abbrev pub judge_window : Unsequenced → Group → Fate → Judged
judge_window g group room =
    by_tests g.incoming.0 g.words group.0 (passed_by g)
    (taken_at room g group (record { 0 = first group.0 }) cleared)
    (passed_by g)
    (taken_at room g group g.incoming g.words)
