-- The text of a key, a byte more.
use Rattle.std.proofs.Common.{◌≡◌, ℕ, ◌+◌, ◌<◌, List, [], ◌∷◌, ◌++◌, length, take, get_or, ap, ◌∙◌}
use Rattle.std.specs.Str.{encode_utf8_all}
use Rattle.std.specs.Char.{encode_utf8}
use Rattle.std.proofs.lemmas.Str.{encodes-append}
use Rattle.std.proofs.lemmas.List.{append-nil, take_more}

pub text_more : (k : List ℕ) (b : ℕ) → encode_utf8_all (k ++ b ∷ []) ≡ encode_utf8_all k ++ encode_utf8 b
text_more k b = encodes-append k (b ∷ []) ∙ ap (λ t. encode_utf8_all k ++ t) (append-nil (encode_utf8 b))

pub key_more : (k : List ℕ) (i d : ℕ) → i < length k → encode_utf8_all (take (i + 1) k) ≡ encode_utf8_all (take i k) ++ encode_utf8 (get_or k i d)
key_more k i d h = ap encode_utf8_all (take_more k i d h) ∙ text_more (take i k) (get_or k i d)
