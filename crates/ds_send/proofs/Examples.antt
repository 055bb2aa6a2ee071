-- Worked examples of the definitions: a transaction as its client knows it.
use Rattle.std.proofs.Common.{◌≡◌, Some, refl}
use Rattle.ds_send.specs.Asked.{asker_in}

the_client_asks_with_its_last_number : asker_in (Some (record { number = record { 0 = 1 }; stamp = record { 0 = 10 }; epoch = 0; last = record { 0 = 4 } })) ≡ Some (record { number = 1; stamp = 10; epoch = 0; last = 4 })
the_client_asks_with_its_last_number = refl
