-- A worked example of the law: a get at a key that another client wrote, and what must not count as such a call.
use Rattle.std.proofs.Common.{◌≡◌, true, false, List, [], ◌∷◌, length, ◌==◌, None, inl, refl, sym, subst, lit<, arith}
use Rattle.std.proofs.lemmas.List.{append-nil}
use Rattle.ds_base.specs.Order.{after}
use Rattle.ds_base.specs.declared.value.Dir.TheVariants.{Forward}
use Rattle.ds_desc.specs.declared.meta.Looked.TheVariants as Looked
use Rattle.ds_kind.specs.declared.batch.Batch.{Batch}
use Rattle.ds_kind.specs.declared.reply.Body.TheVariants as Body
use Rattle.ds_cell.specs.Store.{Store, empty_store}
use Rattle.ds_rule.specs.declared.answer.Outcome.{Outcome}
use Rattle.ds_rule.specs.declared.cluster.ClusterRange.{ClusterRange}
use Rattle.ds_rule.specs.declared.event.Event.{Event}
use Rattle.ds_rule.specs.declared.journal.JournalStep.TheVariants.{Look}
use Rattle.ds_rule.specs.Asking.{Asking}
use Rattle.ds_rule.specs.Begin.{first_world, ranges_of}
use Rattle.ds_rule.specs.Clauses.{Stands}
use Rattle.ds_rule.specs.Deliver.{deliver_world}
use Rattle.ds_rule.specs.Journal.{BothWays, Happening, Did, accepted}
use Rattle.ds_rule.specs.Moves.{moved}
use Rattle.ds_rule.specs.Plain.{after_event}
use Rattle.ds_rule.specs.World.{World, Tiles, look_rows, look_world}
use Rattle.ds_rule.proofs.Examples.{alone_at, asked_at, batch_at, get, got, key_a, key_g, differs, wrote}
use Rattle.ds_rule.proofs.ExamplesOfJournals.{a_get_is_a_piece_of_its_batch, get_gave, get_piece}
use Rattle.ds_mean.specs.InTurn.{AreAll, items_of}
use Rattle.ds_mean.specs.Means.{Means}
use Rattle.ds_mean.specs.Ready.{ReadyFor}
use Rattle.ds_mean.specs.Send.{DidSend, LeadsOn}
use Rattle.ds_mean.proofs.Lifetimes.{first_means, moves_mean}
use Rattle.ds_mean.proofs.SendLaw.{send_law}

-- ---- a world and its store: two ranges, and another client's 7 at a

abbrev two_ranges : List ClusterRange
two_ranges = record { start = []; nodes = 1 ∷ 3 ∷ []; lease = 1 } ∷ record { start = key_g; nodes = 2 ∷ 3 ∷ []; lease = 2 } ∷ []

two_tile : Tiles [] (ranges_of 1 two_ranges)
two_tile = (record { begins = refl; some = refl; rising = tt; inside = tt }, (record { begins = refl; some = refl; rising = tt; inside = tt }, refl))

abbrev write_7 : Event
write_7 = wrote key_a 4 7

abbrev pub its_world : World
its_world = moved (first_world two_ranges) write_7

abbrev pub its_store : Store
its_store = after_event write_7 empty_store

pub it_means_its_store : Means its_world its_store
it_means_its_store = moves_mean (first_world two_ranges) empty_store write_7 0 (lit< tt, refl) (omega arith) (first_means two_ranges two_tile refl)

-- ---- a get at a, at the stamp 20

abbrev pub its_batch : Batch
its_batch = batch_at 20 (get key_a ∷ [])

abbrev its_asking : Asking
its_asking = asked_at 20 (get key_a ∷ [])

abbrev pub before : Stands
before = record { world = its_world; past = []; floor = 20; refused = 0; lost = 0; ahead = []; block = [] }

abbrev its_steps : List Happening
its_steps = Did (Look key_a Forward (Looked.Rows (look_rows its_world key_a Forward))) ∷ Did (get_gave 7) ∷ []

abbrev behind : Stands
behind = record { world = deliver_world (look_world its_world key_a Forward) 1 get_piece; past = its_steps; floor = 20; refused = 0; lost = 0; ahead = []; block = [] }

it_is_ready : ReadyFor before its_store its_batch its_asking
it_is_ready = record { means = it_means_its_store; asks = refl; admits = refl; beside = tt; floor = omega arith; open_floor = omega arith }

it_sent_the_get : DidSend 9 its_asking before behind (Outcome.Ok (got 7 ∷ []))
it_sent_the_get = record {
  added = its_steps;
  grown = refl;
  runs = (look_world its_world key_a Forward, (BothWays, ((refl, refl), refl)), (deliver_world (look_world its_world key_a Forward) 1 get_piece, (BothWays, (refl, refl)), refl));
  floor = refl;
  block = refl;
  high = (tt, (tt, tt));
  of = (refl, (a_get_is_a_piece_of_its_batch (alone_at 20) None, tt));
  turns = (tt, (λ k. ([], sym (append-nil _)), tt));
  whole = λ h. let never : false ≡ true = h.1 in cc;
  shows = record {
    all = λ k. refl;
    gathered = (record { whole = refl; joins = (after key_a, Body.Got None, refl, refl, (refl, refl), refl) }, tt);
  };
}

-- so the plain store answers 7, and the world means it afterwards
the_get_leads_on : LeadsOn before behind its_store its_batch (Outcome.Ok (got 7 ∷ []))
unfolding it_sent_the_get
the_get_leads_on =
    (send_law 9 its_batch its_asking before behind (Outcome.Ok (got 7 ∷ [])) its_store (record { some = omega arith; proper = refl })
    (record { unlimited = refl; endless = refl; resolved = inl refl }) tt it_sent_the_get (tt, (tt, tt)) it_is_ready).0

-- ---- what is no such call

-- an answer without any step
nothing_answers_nothing : (d : DidSend 9 its_asking before before (Outcome.Ok (got 7 ∷ []))) → d.added ≡ [] → ⊥
nothing_answers_nothing d none =
    differs ((subst (λ hs. AreAll its_asking.items (items_of (accepted hs))) none d.shows.all) key_a) (λ ns. length ns == 1) refl refl
