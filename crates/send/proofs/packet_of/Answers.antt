-- `packet_of` reads the MTU off the record: in range, the fragment length has 16 bits.
use Prim.Native.Nat.{◌≤◌}
use borrow.Author.Rules.{rules}
use Rattle.places.specs.Whole.{whole}
use Rattle.send.proofs.Ranges.{length_high}
use Rattle.send.proofs.packet_of.Goals as goal

pub overflow_cast-fragment : goal.overflow_cast-fragment
overflow_cast-fragment c =
    let a = c.args in
    let f = (whole a.words.now).flow in
    let h : c.fragment_length-fragment.result ≤ 65535 = rw (c.fragment_length-fragment.ensures, c.flow-flow.ensures) (length_high f.mtu a.settings.checksum c.requires) in
    search rules

pub returns : goal.returns
returns c = rw (c.packet_of.ensures, c.fragment_length-fragment.ensures, c.flow-flow.ensures)
