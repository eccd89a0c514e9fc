-- The next position: the items at it are those that are taken next.
use Rattle.std.specs.Prelude.{◌≡◌, ◌⊎◌, ℕ, ◌+◌, ◌≤◌, List, [], ◌++◌, length, Contains}
use Rattle.ig_item.specs.WellKinded.{NoneTwice}
use Rattle.ig_item.specs.declared.items.Item as stored
use Rattle.ig_plain.specs.declared.found.Found.{Found}
use Rattle.ig_run_moves.specs.declared.waiting.Waiting.{Waiting}

-- `later` parted into those at the position, which were added to `here`, and the rest
pub record IsParted (position : ℕ) (later here after rest : List stored.Item) : Type 0 where
  pub here_now : (x : stored.Item) → Contains after x → Contains here x ⊎ (Contains later x × (x.position ≡ position))
  pub here_still : (x : stored.Item) → Contains here x → Contains after x
  pub moved : (x : stored.Item) → Contains later x → Contains after x ⊎ Contains rest x
  pub rest_now : (x : stored.Item) → Contains rest x → Contains later x × (x.position ≡ position → ⊥)
  pub here_once : NoneTwice (here ++ later) → NoneTwice after
  pub rest_once : NoneTwice later → NoneTwice rest
  pub count : length after + length rest ≤ length here + length later

-- what is in `here` and `later` now was in them before
pub record WereThere (later here after rest : List stored.Item) : Type 0 where
  pub at : (x : stored.Item) → Contains after x → Contains here x ⊎ Contains later x
  pub behind : (x : stored.Item) → Contains rest x → Contains later x

-- the items at the old position are taken, and those at the new one are next
pub record ArrivesWith (position : ℕ) (a b : Found) : Type 0 where
  pub envs : b.envs.keys ≡ a.envs.keys
  pub keys : b.keys ≡ a.keys
  pub done : b.done.items ≡ a.done.items ++ a.here.items
  pub here : (x : stored.Item) → Contains b.here.items x → Contains a.later.items x × (x.position ≡ position)
  pub moved : (x : stored.Item) → Contains a.later.items x → Contains b.here.items x ⊎ Contains b.later.items x
  pub later : (x : stored.Item) → Contains b.later.items x → Contains a.later.items x × (x.position ≡ position → ⊥)
  pub here_once : NoneTwice a.later.items → NoneTwice b.here.items
  pub later_once : NoneTwice a.later.items → NoneTwice b.later.items
  pub count : length b.here.items + length b.later.items ≤ length a.later.items

-- nothing is found and nothing waits
pub record IsNothing (s : Found) (w : Waiting) : Type 0 where
  pub done : s.done.items ≡ []
  pub here : s.here.items ≡ []
  pub later : s.later.items ≡ []
  pub envs : s.envs.keys ≡ []
  pub keys : s.keys ≡ []
  pub called : w.called.items ≡ []
