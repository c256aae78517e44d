-- A group is marked exactly if it was delivered, or passed over in state 6, since the base came to its window. So after an 8 the same arrival is stored
-- once there is room.
use Rattle.std.specs.Prelude.{ℕ, ◌≡◌, Bool, true, List, [], ◌∷◌, eqb}
use Rattle.numbers.specs.Pick.{pick, both}
use Rattle.numbers.specs.declared.counters.Group.{Group}
use Rattle.cells.specs.Runs.{has}
use Rattle.peer.specs.Damage.{sound}
use Rattle.peer.specs.States.{disconnect_later}
use Rattle.peer.specs.Outcome.{State, Outcome}
use Rattle.peer.specs.declared.settings.Settings.{Settings}
use Rattle.peer.specs.declared.defaults.Kept.{Kept}
use Rattle.window.specs.Window.{first, marked}
use Rattle.arrival.specs.Arrivals.{stored}
use Rattle.arrival.specs.declared.Arrival.{Arrival}
use Rattle.arrive_unsequenced.specs.Calls.{send_unsequenced}
use Rattle.link.specs.Runs.{Asked, comes_to, says_one, run, reset_state}
use Rattle.promises.specs.History.{Concern, resetting, arriving, neither, concern, base_of}
use Rattle.promises.specs.Repeats.{unsequencedly}
use Rattle.promises.specs.Next.{Fits}

-- an arrival of group g that answers so took it: delivered; or, in state 6, passed over in the window that is then the base's
abbrev pub takes : ℕ → State → Outcome State → Bool
takes g x o =
    pick (says_one o.answer) true
    (both (eqb o.answer.number 0) (both (eqb x.peer.standing.state disconnect_later) (eqb (first g) (base_of o.after))))

-- the groups taken since the base came to where it is: a move of the base begins anew, and so does a reset that is done
abbrev pub took_by : Concern → State → Outcome State → List ℕ → List ℕ
took_by resetting x o log = pick (eqb o.answer.number 0) [] log
took_by (arriving g) x o log =
    let since = pick (eqb (base_of o.after) (base_of x)) log [] in pick (takes g x o) (g ∷ since) since
took_by neither x o log = log

unfoldable pub took : List Asked → State → List ℕ → List ℕ
took [] x log = log
took (a ∷ rest) x log = let o = comes_to a x in took rest o.after (took_by (concern a.call) x o log)

abbrev pub MarkedExactly : Type 0
MarkedExactly =
    (mtu : ℕ) (kept : Kept) (store second : List ℕ) (calls : List Asked) (g : ℕ) → let x = reset_state mtu kept store second in
    let y = (run calls x).end in
    first g ≡ base_of y → marked y.peer.unsequenced.words g ≡ has (took calls x []) g

-- calls that have nothing to do with the window
abbrev pub Aside : List Asked → Type 0
Aside [] = Unit {0}
Aside (a ∷ rest) = (concern a.call ≡ neither) × Aside rest

-- an arrival was refused with 8; then, after such calls, the same arrival finds room
abbrev pub StoredAfterEight : Type 0
StoredAfterEight =
    (s t : Settings) (a : Arrival) (g : Group) (datagram : List ℕ) (x : State) (calls : List Asked)
    → let o = comes_to (unsequencedly s a g datagram) x in
    o.answer.number ≡ 8
    → Aside calls
    → let y = (run calls o.after).end in
    sound y.peer ≡ true
    → Fits send_unsequenced t a datagram y
    → (comes_to (unsequencedly t a g datagram) y).answer ≡ stored
