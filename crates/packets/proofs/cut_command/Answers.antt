-- `cut_command` meets its contract: the kind of the start number picks the command.
use mathlib.Core.Path.{sym, ap, ◌∙◌}
use Rattle.packets.specs.Packets.{cut_command}
use Rattle.packets.specs.declared.Start.{Start}
use Rattle.packets.proofs.cut_command.Goals as goal

pub returns-in-Reliable : goal.returns-in-Reliable
returns-in-Reliable c =
    let a = c.args in
    c.blank.ensures ∙ ap (λ (s : Start). cut_command s a.channel a.fragment) (sym c.in-Reliable.is)

pub returns-in-Unreliable : goal.returns-in-Unreliable
returns-in-Unreliable c =
    let a = c.args in
    c.blank-in-Unreliable.ensures ∙ ap (λ (s : Start). cut_command s a.channel a.fragment) (sym c.in-Unreliable.is)
