-- A proper request on keys has a span of keys.
use Rattle.std.proofs.Common.{◌≡◌, true}
use Rattle.ds_kind.specs.Asks.{has_proper_span}
use Rattle.ds_kind.specs.Request.{reach_of, span_of}
use Rattle.ds_kind.specs.declared.request.Request.{Request}
use Rattle.ds_cover.proofs.Proper.{proper-span}
use Rattle.ds_cover.specs.Measures.{AreKeys, IsSpan}

pub its_span : (r : Request) → AreKeys (reach_of r) → has_proper_span r ≡ true → IsSpan (span_of r)
its_span r keys proper = proper-span (reach_of r) keys proper
