use Rattle.std.proofs.Common.{◌∙◌, rules, tests}
use Rattle.std.specs.Str.{bytes_eq}
use Rattle.std.proofs.lemmas.Iterator.{YieldsList-from_slice}
use Rattle.std.proofs.lemmas.Iterator.Search.{any_from_yields_List}
use Rattle.ds_fields.proofs.Texts.{list_any-now}
use Rattle.ds_fields.proofs.members.is_named.Goals as goal

pub returns : goal.returns
returns c =
    any_from_yields_List (λ n. bytes_eq c.args.name.now n.now) _ _ _ c.any.ensures.ran (YieldsList-from_slice c.args.names.now cc) (λ x b q k. search (rules, tests)) ∙ list_any-now (bytes_eq c.args.name.now) c.args.names.now
