-- What the searches and the removal on the lent record are: by looks at the pool, and by what the slots hold.
-- The argument: a slot of the pool in brief says all that a look asks of it; past the pool there is nothing to look at.
use Rattle.std.specs.Prelude.{Option, Some}
use Rattle.std.proofs.Common.{◌≡◌, ℕ, ◌+◌, ◌<◌, ◌≤◌, Bool, None, List, map, length, get_or, take, drop, sym, ap, ◌∙◌, arith}
use lib.ListN.{length-map, get_or-eq_default}
use Rattle.record.specs.Lists.{outgoing, out_items}
use Rattle.lists.specs.Rows.{section}
use Rattle.record.specs.Fresh.{no_outgoing}
use Rattle.record.specs.declared.groups.Lists.{Lists}
use Rattle.peer.specs.declared.Peer.{Peer}
use Rattle.pool.specs.Slots.{width, slot_from, brief_of}
use Rattle.pool.specs.declared.Brief.{Brief}
use Rattle.pool.proofs.Rows.{rows_length}
use Rattle.places.specs.Whole.{whole}
use Rattle.places.proofs.PoolLaws.{pool_is}
use Rattle.queues.specs.declared.Out.TheVariants as out
use Rattle.acknowledge.specs.Removal.{seek, spot_by, held_by}
use Rattle.acknowledge.specs.CodeSearches.{look_of, at, slot_of}
use Rattle.acknowledge.specs.declared.removal.Seen.{Seen}
use Rattle.acknowledge.specs.declared.removal.Seen.TheVariants as seen
use Rattle.acknowledge.proofs.RemovalLaws.{spot_at, made_at, seek_found, seek_ends, seek_goes_on, seek_end}

module _ (ws : List ℕ) where
  pub pool_size : length (whole ws).outgoing ≡ outgoing
  pool_size = ap length (pool_is ws) ∙ rows_length slot_from width outgoing (section 330 832 ws)

  -- past the pool
  pub none_held : get_or (whole ws).outgoing outgoing no_outgoing ≡ no_outgoing
  none_held = get_or-eq_default (whole ws).outgoing no_outgoing {n = outgoing} (omega (arith, pool_size))

  module _ (sent : Bool) (number channel s : ℕ) where
    pub look_past : outgoing ≤ s → seen.GoesOn ≡ at (map (look_of sent number channel) (whole ws).outgoing) s
    look_past h =
        let f = look_of sent number channel in
        let l = (whole ws).outgoing in
        sym (get_or-eq_default (map f l) seen.GoesOn {n = s} (omega (arith, length-map l f, pool_size)))

    -- v is what was made of slot s in brief
    pub look_brief : s < outgoing → (b : Brief) (v : Seen) → b ≡ brief_of (get_or (whole ws).outgoing s no_outgoing) → v ≡ look_of sent number channel (slot_of b)
        → v ≡ at (map (look_of sent number channel) (whole ws).outgoing) s
    look_brief h b v e z =
        z
        ∙ ap (λ (x : Brief). look_of sent number channel (slot_of x)) e
        ∙ sym (made_at (look_of sent number channel) (whole ws).outgoing s (omega (arith, pool_size)))

-- what a slot holds, by what the slot is
module _ (p : Peer) (f : Option ℕ) (b : Brief) where
  pub held_is : (g : Option ℕ) → f ≡ g → b ≡ brief_of (held_by p.outgoing g) → b ≡ brief_of (held_by p.outgoing f)
  held_is g e z = z ∙ ap (λ (x : Option ℕ). brief_of (held_by p.outgoing x)) (sym e)

-- where the three searches find it: v, w and x are what they answered
module _ (f g : ℕ → Seen) (l : Lists) (v : Option ℕ) (a : v ≡ seek f 0 (out_items l.sent)) where
  pub spot_sent : (k : ℕ) → v ≡ Some k → spot_at out.Sent k ≡ spot_by f g l
  spot_sent k e = rw (sym a ∙ e)

  module _ (d : v ≡ None) (w : Option ℕ) (b : w ≡ seek g 0 (out_items l.outgoing)) where
    pub spot_outgoing : (k : ℕ) → w ≡ Some k → spot_at out.Outgoing k ≡ spot_by f g l
    spot_outgoing k e = rw (sym a ∙ d, sym b ∙ e)

    module _ (h : w ≡ None) (x : Option ℕ) (c : x ≡ seek g 0 (out_items l.send_reliable)) where
      pub spot_reliable : (k : ℕ) → x ≡ Some k → spot_at out.Reliable k ≡ spot_by f g l
      spot_reliable k e = rw (sym a ∙ d, sym b ∙ h, sym c ∙ e)

      pub spot_nowhere : x ≡ None → None ≡ spot_by f g l
      spot_nowhere e = rw (sym a ∙ d, sym b ∙ h, sym c ∙ e)

-- a turn of a search: v is what it makes of s, the slot at place k
module _ (f : ℕ → Seen) (xs : List ℕ) (n k : ℕ) (e : n ≡ length xs) (so : seek f 0 xs ≡ seek f k (drop k (take n xs))) where
  pub turn_end : n ≤ k → None ≡ seek f 0 xs
  turn_end h = sym (so ∙ seek_end f xs n k h)

  module _ (h : k < n) (s : ℕ) (v : Seen) (a : s ≡ get_or xs k 0) (b : v ≡ f s) where
    is : v ≡ f (get_or xs k 0)
    is = b ∙ ap f a

    pub turn_found : v ≡ seen.Found → Some k ≡ seek f 0 xs
    turn_found q = sym (so ∙ seek_found f xs n k (omega (arith, e)) h v is q)

    pub turn_ends : v ≡ seen.Ends → None ≡ seek f 0 xs
    turn_ends q = sym (so ∙ seek_ends f xs n k (omega (arith, e)) h v is q)

    pub turn_goes_on : v ≡ seen.GoesOn → seek f 0 xs ≡ seek f (k + 1) (drop (k + 1) (take n xs))
    turn_goes_on q = so ∙ seek_goes_on f xs n k (omega (arith, e)) h v is q
