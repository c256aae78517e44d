-- Reset, begin and set state.
use Rattle.std.specs.Prelude.{ℕ, Bool, leb, eqb, replicate}
use Rattle.numbers.specs.Pick.{pick, both}
use Rattle.numbers.specs.Limits.{mtu_fits}
use Rattle.numbers.specs.declared.refusals.Refusal.TheVariants.{OutOfRange}
use Rattle.record.specs.Sizes.{channels}
use Rattle.record.specs.Fresh.{no_channel}
use Rattle.record.specs.Updates.{with_state, with_count, with_mtu}
use Rattle.peer.specs.States.{last_state}
use Rattle.peer.specs.Settings.{fit_settings}
use Rattle.peer.specs.Fresh.{fresh_peer}
use Rattle.peer.specs.Updates.{with_standing, with_flow, with_channels}
use Rattle.peer.specs.Outcome.{Outcome, unchanged, finished}
use Rattle.peer.specs.Gate.{on_record}
use Rattle.peer.specs.declared.settings.Settings.{Settings}
use Rattle.peer.specs.declared.Peer.{Peer}
use Rattle.peer.specs.declared.defaults.Kept.{Kept}

abbrev pub kept : Peer → Kept
kept p =
    record {
      incoming_peer = p.ids.incoming_peer;
      outgoing_session = p.ids.outgoing_session;
      incoming_session = p.ids.incoming_session;
      reserved = p.unsequenced.reserved;
      queued = p.waiting.queued;
    }

-- "Reset needs no sound record and never answers 13."
abbrev pub resets : Settings → Peer → Outcome Peer
resets s p = pick (fit_settings s) (finished (fresh_peer s.mtu (kept p))) (unchanged OutOfRange p)

-- "begin: bad MTU or channel count, or count not 0 already"
abbrev pub begin_fits : ℕ → ℕ → ℕ → Bool
begin_fits mtu count already = both (mtu_fits mtu) (both (leb 1 count) (both (leb count channels) (eqb already 0)))

-- "Begin sets MTU and channels of all 0 and touches neither base nor window."
abbrev pub begun : ℕ → ℕ → Peer → Peer
begun mtu count p =
    with_channels (with_flow (with_standing p (with_count p.standing count)) (with_mtu p.flow mtu)) (replicate channels no_channel)

abbrev pub begins_sound : ℕ → ℕ → Peer → Outcome Peer
begins_sound mtu count p =
    pick (begin_fits mtu count p.standing.channels) (finished (begun mtu count p)) (unchanged OutOfRange p)

abbrev pub begins : Settings → ℕ → ℕ → Peer → Outcome Peer
begins s mtu count p = on_record s p (begins_sound mtu count p)

-- "Set state changes only the state."
abbrev pub stated : ℕ → Peer → Peer
stated state p = with_standing p (with_state p.standing state)

-- "States are 0 to 9"
abbrev pub sets_state_sound : ℕ → Peer → Outcome Peer
sets_state_sound state p = pick (leb state last_state) (finished (stated state p)) (unchanged OutOfRange p)

abbrev pub sets_state : Settings → ℕ → Peer → Outcome Peer
sets_state s state p = on_record s p (sets_state_sound state p)
