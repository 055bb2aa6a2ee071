use Rattle.std.proofs.Common.{refl}
use Rattle.ds_world.proofs.Delivers.{deliver-keeps, deliver-leaves}
use Rattle.ds_world.proofs.laws.deliver_laws.Goals as goal

pub returns-clause-keeps : goal.returns-clause-keeps
returns-clause-keeps c = λ w h. deliver-keeps c.args.node c.args.piece.now w h

pub returns-clause-beside : goal.returns-clause-beside
returns-clause-beside c = λ w. (
  deliver-leaves (λ v. v.armed) (λ id cs v. refl) (λ ts v. refl) (λ k v. refl) (λ k m v. refl) w c.args.node c.args.piece.now,
  deliver-leaves (λ v. v.copies) (λ id cs v. refl) (λ ts v. refl) (λ k v. refl) (λ k m v. refl) w c.args.node c.args.piece.now,
  deliver-leaves (λ v. v.count) (λ id cs v. refl) (λ ts v. refl) (λ k v. refl) (λ k m v. refl) w c.args.node c.args.piece.now,
)
