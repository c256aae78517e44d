-- The four lists, from their places.
use Rattle.copies.proofs.ListLaws.{lists_made}
use Rattle.copies.proofs.reading.lists.Goals as goal

pub returns : goal.returns
returns c =
    lists_made
    c.args.words.now
    c.out_list-sent.result
    c.out_list-reliable.result
    c.out_list-outgoing.result
    c.in_list-dispatched.result
    c.out_list-sent.ensures
    c.out_list-reliable.ensures
    c.out_list-outgoing.ensures
    c.in_list-dispatched.ensures
