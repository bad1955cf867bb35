-- Operators on three-float points: componentwise, in the written order, one rounding each. A scaling is point times number.
use Rattle.std.specs.Prelude.{from_bits, Float}
use Rattle.std.specs.Float.{binary32, binary64}
use Rattle.std.specs.Float.Ieee.{add, sub, mul, neg}
use Rattle.vectors.specs.Narrow.{narrowed}
use Rattle.vectors.specs.declared.Vec3.{Vec3}

abbrev pub plus : Vec3 → Vec3 → Vec3
plus a b = record { x = add binary32 a.x b.x; y = add binary32 a.y b.y; z = add binary32 a.z b.z }

abbrev pub minus : Vec3 → Vec3 → Vec3
minus a b = record { x = sub binary32 a.x b.x; y = sub binary32 a.y b.y; z = sub binary32 a.z b.z }

abbrev pub negated : Vec3 → Vec3
negated a = record { x = neg a.x; y = neg a.y; z = neg a.z }

abbrev pub scaled : Vec3 → Float → Vec3
scaled a k = record { x = mul binary32 a.x k; y = mul binary32 a.y k; z = mul binary32 a.z k }

-- where tangents begin: three times +0
abbrev pub origin : Vec3
origin = record { x = from_bits binary32 0; y = from_bits binary32 0; z = from_bits binary32 0 }

-- a * b - c * d: the products and the difference are f64, then narrowed
abbrev pub minor : Float → Float → Float → Float → Float
minor a b c d = narrowed (sub binary64 (mul binary64 a b) (mul binary64 c d))

abbrev pub cross : Vec3 → Vec3 → Vec3
cross a b = record { x = minor a.y b.z a.z b.y; y = minor a.z b.x a.x b.z; z = minor a.x b.y a.y b.x }
