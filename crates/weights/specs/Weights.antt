-- The rules of position as the code holds them, in f32. Each gives of every coordinate what the rule over numbers does.
use Rattle.std.specs.Prelude.{ℕ, Bool, List, map, Float}
use Rattle.std.specs.Float.{nan}
use Rattle.vectors.specs.declared.Vec3.{Vec3}
use Rattle.lists.specs.Lists.{pick}
use Rattle.rules.specs.Position as paper
use Rattle.rules.specs.Position.{refining, limit, ring_rule, rim_rule, weight, single}
use Rattle.weights.specs.declared.Stage.{Stage}
use Rattle.weights.specs.declared.Stage.TheVariants.{Refining, Limit}
use Rattle.weights.specs.declared.Rule.{Rule}
use Rattle.weights.specs.declared.Rule.TheVariants.{Ring, Rim}

abbrev pub staged : Stage → paper.Stage
staged Refining = refining
staged Limit = limit

-- the rule of a vertex with n in its ring
abbrev pub rule_of : paper.Stage → Bool → ℕ → paper.Rule
rule_of s rim n = pick rim (rim_rule s) (ring_rule s n)

-- "A vertex rule is either a ring weight or a rim weight, and carries it"
abbrev pub carrying : {W : Type 0} → (paper.Rule → W) → paper.Rule → Rule W
carrying of (ring_rule s n) = Ring (of (ring_rule s n))
carrying of (rim_rule s) = Rim (of (rim_rule s))

abbrev pub carried : paper.Rule → Rule Float
carried = carrying weight

-- x, y and z alike
abbrev pub alike : (Float → List Float → Float) → Vec3 → List Vec3 → Vec3
alike f p qs = record { x = f p.x (map (λ q. q.x) qs); y = f p.y (map (λ q. q.y) qs); z = f p.z (map (λ q. q.z) qs) }

-- what stands past a list's end, which no rule reaches
abbrev pub nowhere : Vec3
nowhere = record { x = nan; y = nan; z = nan }

abbrev pub half_point : Vec3 → Vec3 → Vec3
half_point a b = record { x = single.halves a.x b.x; y = single.halves a.y b.y; z = single.halves a.z b.z }

abbrev pub eighth_point : Vec3 → Vec3 → Vec3 → Vec3 → Vec3
eighth_point a b c d =
    record {
      x = single.eighths a.x b.x c.x d.x;
      y = single.eighths a.y b.y c.y d.y;
      z = single.eighths a.z b.z c.z d.z;
    }
