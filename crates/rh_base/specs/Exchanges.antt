-- Changes that are exchanged one after the other: `put w c` is w after the change c, and `had w c` is what c holds then (ours).
use Rattle.std.specs.Prelude.{List, [], ◌∷◌}

-- from the last change to the first
abbrev pub back : {W C : Type 0} → (W → C → W) → W → List C → W
back put w [] = w
back put w (c ∷ cs) = put (back put w cs) c

-- what the changes hold then
abbrev pub backed : {W C : Type 0} → (W → C → W) → (W → C → C) → W → List C → List C
backed put had w [] = []
backed put had w (c ∷ cs) = had (back put w cs) c ∷ backed put had w cs

-- from the first change to the last
abbrev pub forth : {W C : Type 0} → (W → C → W) → W → List C → W
forth put w [] = w
forth put w (c ∷ cs) = forth put (put w c) cs

abbrev pub forthed : {W C : Type 0} → (W → C → W) → (W → C → C) → W → List C → List C
forthed put had w [] = []
forthed put had w (c ∷ cs) = had w c ∷ forthed put had (put w c) cs

-- what holds of each single change on the way back, and forth
abbrev pub AllBack : {W C : Type 0} → (W → C → W) → (W → C → Type 0) → W → List C → Type 0
AllBack put P w [] = Unit {0}
AllBack put P w (c ∷ cs) = AllBack put P w cs × P (back put w cs) c

abbrev pub AllForth : {W C : Type 0} → (W → C → W) → (W → C → Type 0) → W → List C → Type 0
AllForth put P w [] = Unit {0}
AllForth put P w (c ∷ cs) = P w c × AllForth put P (put w c) cs
