-- The four lists, each to its place.
use mathlib.Core.Path.{◌≡◌, ◌∙◌}
use lib.ListN.{length}
use Rattle.record.specs.declared.outgoing.OutList.{OutList}
use Rattle.record.specs.declared.incoming.InList.{InList}
use Rattle.record.specs.Updates.{with_sent_list, with_reliable_list, with_outgoing_list, with_dispatched}
use Rattle.peer.specs.Updates.{with_lists}
use Rattle.places.specs.Whole.{out_list_from, in_list_from, whole}
use Rattle.copies.proofs.ListLaws.{list_in, row_sent, row_reliable, row_outgoing, row_dispatched, lists_put}
use borrow.Author.Rules.{rules}
use Rattle.copies.proofs.writing.put_lists.Goals as goal

pub returns : goal.returns
returns c =
    let x = c.args.x in
    let ws = c.args.words.now in
    let v = c.put_out.new.words in
    let w = c.put_out-2.new.words in
    let u = c.put_out-3.new.words in
    let lv : length v ≡ 1236 = search rules in
    let lw : length w ≡ 1236 = search rules in
    let lu : length u ≡ 1236 = search rules in
    let es : whole c.put_out.new.words ≡ with_lists (whole ws) (with_sent_list (whole ws).lists x.sent) =
    list_in OutList out_list_from (λ (y : OutList). with_lists (whole ws) (with_sent_list (whole ws).lists y)) ws c.put_out.new.words 43 32 (row_sent ws c.told-words) x.sent x.sent.len x.sent.slots
    c.put_out.ensures.long c.put_out.ensures.is c.put_out.ensures.back in
    let er : whole c.put_out-2.new.words ≡ with_lists (whole v) (with_reliable_list (whole v).lists x.send_reliable) =
    list_in OutList out_list_from (λ (y : OutList). with_lists (whole v) (with_reliable_list (whole v).lists y)) v c.put_out-2.new.words 76 32 (row_reliable v lv) x.send_reliable x.send_reliable.len x.send_reliable.slots
    c.put_out-2.ensures.long c.put_out-2.ensures.is c.put_out-2.ensures.back in
    let eo : whole c.put_out-3.new.words ≡ with_lists (whole w) (with_outgoing_list (whole w).lists x.outgoing) =
    list_in OutList out_list_from (λ (y : OutList). with_lists (whole w) (with_outgoing_list (whole w).lists y)) w c.put_out-3.new.words 109 32 (row_outgoing w lw) x.outgoing x.outgoing.len x.outgoing.slots
    c.put_out-3.ensures.long c.put_out-3.ensures.is c.put_out-3.ensures.back in
    let ed : whole c.put_in.new.words ≡ with_lists (whole u) (with_dispatched (whole u).lists x.dispatched) =
    list_in InList in_list_from (λ (y : InList). with_lists (whole u) (with_dispatched (whole u).lists y)) u c.put_in.new.words 142 12 (row_dispatched u lu) x.dispatched x.dispatched.len x.dispatched.slots
    c.put_in.ensures.long c.put_in.ensures.is c.put_in.ensures.back in
    lists_put x (whole ws) (whole v) (whole w) (whole u) (whole c.put_in.new.words) es er eo ed
