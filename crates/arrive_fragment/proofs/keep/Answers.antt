-- `keep` by the fate: what is passed over or refused leaves all as it was; the others by the function that stores them.
use Rattle.places.specs.Whole.{whole}
use Rattle.arrive_fragment.proofs.Calling.{kept_first, kept_later}
use Rattle.arrive_fragment.proofs.keep.Goals as goal

pub returns-in-Passed : goal.returns-in-Passed
returns-in-Passed c store = rw c.in-Passed.is

pub returns-in-Unfit : goal.returns-in-Unfit
returns-in-Unfit c store = rw c.in-Unfit.is

pub returns-in-NoRoom : goal.returns-in-NoRoom
returns-in-NoRoom c store = rw c.in-NoRoom.is

pub returns-in-First : goal.returns-in-First
returns-in-First c store =
    let a = c.args in
    let b = c.begin in
    kept_first a.a a.datagram.now (whole a.words.now) (whole b.new.words) store a.second.now b.new.second a.fate c.in-First.s c.in-First.is b.ensures.words_after b.ensures.second_after

pub returns-in-Later : goal.returns-in-Later
returns-in-Later c store =
    let a = c.args in
    let b = c.add in
    kept_later a.a a.datagram.now (whole a.words.now) (whole b.new.words) store a.second.now b.new.second a.fate c.in-Later.s c.in-Later.is b.ensures.words_after b.ensures.second_after
