-- `entries::is_holder` meets its contract: an entry on another tile commutes, and for one on the same tile the table is read
use Rattle.std.specs.Prelude.{not}
use Rattle.std.proofs.Common.{◌∙◌, ap, sym, ne_eqb}
use Rattle.entries.proofs.Passes.{column_small, other_commutes}
use Rattle.entries.proofs.is_holder.Goals as goal

pub returns-else-key_in-key : goal.returns-else-key_in-key
returns-else-key_in-key c =
    let differs = c.if-key_in-key.false in
    let other = ne_eqb c.args.key _ (λ q. differs (c.key_in.ensures ∙ sym q)) in
    ne_eqb _ _ differs ∙ sym (ap not (other_commutes c.args.kind c.args.e c.args.key c.requires.0 c.requires.1 other))

pub commutes-requires : goal.commutes-requires
commutes-requires c = (c.requires.0, c.requires.1, rw c.column.ensures (column_small c.args.e c.args.key))
