use Rattle.std.proofs.Common.{◌≡◌, ◌∷◌, [], codes, string_bytes, sym, ap, ◌∙◌, arith}
use Rattle.std.proofs.lemmas.Slice.Eq.{bytes_eq-Decides}
use Rattle.distsend.proofs.Words.{only_one}
use Rattle.distsend.proofs.answer.is_command.Goals as goal

pub returns-in-len1 : goal.returns-in-len1
returns-in-len1 c =
    let e = only_one c.args.words.now c.word-item.result (omega arith) (omega arith) c.word-item.is in
    let t = c.eq.ensures in
    let d = bytes_eq-Decides c.as_str.result.now (codes "replay") in (
      λ h. e ∙ ap (λ x. x ∷ []) (sym c.as_str.ensures.value ∙ d.0 (sym t ∙ h)),
      λ h. t ∙ d.1 (c.as_str.ensures.value ∙ (let k = sym e ∙ h in let s : string_bytes c.word-item.result ≡ codes "replay" = cc in s)),
    )
